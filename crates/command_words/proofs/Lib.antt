pub mod ClapReads
