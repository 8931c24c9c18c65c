pub mod LanesTold
