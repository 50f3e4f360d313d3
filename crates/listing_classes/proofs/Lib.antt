mod Apart
mod Bodies
mod Layouts
mod Members
