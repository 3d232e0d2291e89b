pub mod PagesAdded
pub mod RefusedLaws
pub mod SiteLaws
pub mod TakenLaws
