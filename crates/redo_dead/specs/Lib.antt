pub mod Dead
pub mod inside
