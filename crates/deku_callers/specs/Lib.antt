pub mod CountedNumbers
pub mod InThree
pub mod LastValues
pub mod Returning
pub mod Rewriting
