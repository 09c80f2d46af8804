pub mod Tables
pub mod Entering
pub mod Answering
pub mod Books
pub mod SettledBooks
pub mod Indexes
pub mod Numbers
pub mod Worked
