mod Fields
mod Methods
mod Properties
