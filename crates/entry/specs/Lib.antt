-- The entry points have no definitions of their own (text's Entry.antt has them), but what holds along every run of them.
pub mod vocabulary
pub mod Runs
