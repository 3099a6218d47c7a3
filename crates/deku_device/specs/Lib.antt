pub mod Devices
pub mod Overlays
pub mod Cursors
pub mod Seeking
