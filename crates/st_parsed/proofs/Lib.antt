pub mod SelectorForms
pub mod GrammarFits
pub mod ReadFits
