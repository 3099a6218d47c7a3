pub mod Ipv4
