pub mod Faults
pub mod Laws
pub mod Marks
pub mod Register
pub mod Table
