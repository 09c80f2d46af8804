pub mod Program
pub mod NewTables
pub mod Worked
