-- Laws of the definitions in specs/, the round trips of all public entries, and the two conversions there and back.
pub mod PictureLaws
pub mod ConversionLaws
pub mod RoundTripDemand
pub mod ConversionDemand
