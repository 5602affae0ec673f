pub mod Faults
pub mod Answers
pub mod Replies
pub mod Desks
pub mod Consoles
pub mod Sessions
pub mod Conversations
