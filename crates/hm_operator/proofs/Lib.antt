mod Words
mod Replicas
mod Lawful
mod Fields
mod Reasons
