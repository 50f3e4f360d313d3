mod Leads
mod Differ
