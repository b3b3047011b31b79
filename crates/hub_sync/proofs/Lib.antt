mod Looking
mod Pushing
mod Telling
