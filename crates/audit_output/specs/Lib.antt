pub mod BinaryOutputs
pub mod LockfileWords
pub mod Outputs
pub mod Printed
