pub mod Contents
pub mod Calls
pub mod Answers
pub mod Replies
pub mod Requests
