mod Keys
mod Externs
mod Assemblies
mod Headers
