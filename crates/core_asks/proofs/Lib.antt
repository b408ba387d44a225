pub mod WritesLaws
