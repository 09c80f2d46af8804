pub mod Marks
pub mod Trials
pub mod Books
pub mod Histories
pub mod Telling
pub mod Law
pub mod Running
pub mod Claims
