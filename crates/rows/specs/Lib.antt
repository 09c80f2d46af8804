pub mod Rows
pub mod KeptEntries
pub mod Layouts
pub mod Meaning
pub mod Steps
pub mod Worked
