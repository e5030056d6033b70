-- Laws of joining. One line a file:
-- an entry in a word, and read back
pub mod EntryCodes
-- what the forms that a first pass took say of a node and of a process
pub mod FormFacts
-- what the words of a directory tell
pub mod HeldForms
-- what is new is added, one after the other
pub mod NewEntries
-- the entries of a joined node, and their codes
pub mod MergedNodes
-- tests of the numbers from one on, step by step
pub mod NumbersFrom
-- what the forms of both texts list
pub mod ListedNames
-- the entries of a node form stored one after the other
pub mod StoredEntries
-- a form stored in a directory
pub mod StoredForms
-- forms as text
pub mod FormTexts
-- the joined text by slots
pub mod SlotLines
-- entries written read back as themselves
pub mod EntriesBack
-- forms written as lines read back as themselves
pub mod FormsBack
-- a line of a text read into its directory
pub mod ReadLines
-- how far reading has come, at the end of a line, of a part, of the input
pub mod ReadOn
-- two texts fed byte by byte are joined as the whole input is
pub mod FedTexts
-- what is printed: the slots one after the other are the joined text; the refusal
pub mod PrintedTexts
-- forms made of numbers in rising order, turned round
pub mod NumberedForms
-- the joined forms turned round: what they say, that each passes and names what is listed
pub mod JoinedForms
-- the joined text opens
pub mod TextBack
-- the state that forms open, node by node and process by process
pub mod OpenedRows
-- how often an entry stands in a joined node
pub mod OpenedTimes
-- a text joined with itself
pub mod WithItself
-- however the input is cut into parts
pub mod Parts
-- along every run of the functions
pub mod Runs
-- every promise of two texts that are joined
pub mod Promises
