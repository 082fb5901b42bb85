mod Made
mod Outputs
mod Named
mod Performed
mod Delivered
mod Told
