mod Asked
mod Free
mod LeadsBack
mod WithWayBack
