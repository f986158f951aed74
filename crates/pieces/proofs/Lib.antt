pub mod Chain
pub mod SummariesLaws
pub mod NumbersLaws
pub mod Lists
pub mod EntriesLaws
pub mod MessagesLaws
pub mod EndpointsLaws
pub mod RecordersLaws
