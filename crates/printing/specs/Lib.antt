pub mod Printed
pub mod Books
pub mod Lowest
pub mod Putting
pub mod Refusals
pub mod Worked
