-- Texts laid from the back, and the replies to status readings.
pub mod Laying
pub mod Replies
