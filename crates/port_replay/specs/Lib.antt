pub mod PortReplay
