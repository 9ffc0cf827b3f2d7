mod KeyedPlaces
mod NearestKeys
mod NeighbourLists
mod PairRange
