pub mod OnBodies
