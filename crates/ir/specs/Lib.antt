pub mod Kinds
pub mod Verdict
pub mod Class
pub mod Places
pub mod Args
