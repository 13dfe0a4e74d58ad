mod Parts
mod ChainKeeps
mod PrimaryKeeps
mod ViewKeeps
mod VrKeeps
mod AnyKeeps
