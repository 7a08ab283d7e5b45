pub mod InRange
pub mod FiguresFit
pub mod GivenBack
pub mod FitsRows
pub mod FitsTasks
pub mod FreshFits
pub mod Shows
pub mod Walks
