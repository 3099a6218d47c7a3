mod Carrying
mod LastByte
