-- Convolutional codes (Codes), their shift registers (Registers), what both keep (Laws), and runs of inputs through them (Runs): the definitions.
pub mod Codes
pub mod Registers
pub mod Laws
pub mod Runs
