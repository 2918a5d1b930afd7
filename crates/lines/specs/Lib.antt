-- Decimal numbers and lines of them, as bytes.
pub mod Lines
