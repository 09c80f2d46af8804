pub mod Limits
pub mod Refusals
pub mod Tables
pub mod Finding
pub mod Entering
pub mod Held
pub mod Facts
pub mod Worked
