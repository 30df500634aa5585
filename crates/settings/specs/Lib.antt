-- The settings program (document 01, "Settings program").
--     Decimal    a number in decimal
--     Lines      the line that the program prints
--     Cases      inputs with their lines
pub mod Decimal
pub mod Lines
pub mod Cases
