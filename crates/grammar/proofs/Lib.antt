pub mod Steps
pub mod Leading
pub mod Comments
