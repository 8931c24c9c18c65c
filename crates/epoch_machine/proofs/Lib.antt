pub mod ActionAsks
pub mod CollectionAsks
pub mod Exchanges
pub mod Stages
pub mod StagesAfter
pub mod UnderWay
