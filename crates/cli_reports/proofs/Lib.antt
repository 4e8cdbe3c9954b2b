mod Lines
mod Sending
