mod Params
mod Items
mod Whole
