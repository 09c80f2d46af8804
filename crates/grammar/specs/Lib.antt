pub mod Bytes
pub mod Rules
pub mod Grammar
pub mod Reading
pub mod Posts
pub mod Declarations
pub mod Bases
pub mod Worked
