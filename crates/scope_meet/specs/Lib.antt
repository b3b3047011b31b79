pub mod Admitted
pub mod Containment
pub mod FilterNames
pub mod FilterTexts
pub mod Meets
pub mod Named
pub mod NamesAdmitted
