pub mod Bytes
pub mod Hex
pub mod Decimal
pub mod Places
pub mod Signed
pub mod ReadDecimal
pub mod Written
pub mod Digits
