mod Readable
mod Read
