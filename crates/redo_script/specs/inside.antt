pub mod Calls
pub mod Lexer
pub mod Parser
pub mod Passes
pub mod Runs
pub mod Stops
