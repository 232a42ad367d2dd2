pub mod KnownSends
