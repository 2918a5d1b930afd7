-- Laws of decimal numbers, of lines and of bytes written one after the other.
pub mod Lines
