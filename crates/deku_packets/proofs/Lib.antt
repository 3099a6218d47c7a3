mod Following
mod Places
mod Reached
