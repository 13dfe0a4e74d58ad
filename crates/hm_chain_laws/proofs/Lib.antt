mod Laws
mod ChainParts
mod ChainReads
mod ChainRows
mod ChainLater
mod ChainGroups
mod ChainEvents
mod ChainOpens
