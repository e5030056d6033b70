-- `lines::put_kind` meets its contract: an arm a kind.
use borrow.Author.Tests.{ne_eqb}
use Rattle.rows.specs.Lists.{bytes}
use Rattle.rows.specs.Codes.{is_operation, operation, is_subdirectory, subdirectory, is_client, client_end, is_server, server_end}
use Rattle.page.specs.Page.{kind_text}
use Rattle.page.proofs.lines.put_kind.Goals as goal

pub returns-in-1 : goal.returns-in-1
unfolding kind_text is_operation operation is_subdirectory subdirectory is_client client_end is_server server_end bytes
returns-in-1 c = rw c.in-1.is c.put_left.ensures

pub returns-in-2 : goal.returns-in-2
unfolding kind_text is_operation operation is_subdirectory subdirectory is_client client_end is_server server_end bytes
returns-in-2 c = rw c.in-2.is c.put_left-in-2.ensures

pub returns-in-3 : goal.returns-in-3
unfolding kind_text is_operation operation is_subdirectory subdirectory is_client client_end is_server server_end bytes
returns-in-3 c = rw c.in-3.is c.put_left-in-3.ensures

pub returns-in-4 : goal.returns-in-4
unfolding kind_text is_operation operation is_subdirectory subdirectory is_client client_end is_server server_end bytes
returns-in-4 c = rw c.in-4.is c.put_left-in-4.ensures

pub returns-in_default : goal.returns-in_default
unfolding kind_text is_operation operation is_subdirectory subdirectory is_client client_end is_server server_end bytes
returns-in_default c =
    let none = c.in_default.in_default-own.rest in
    rw (ne_eqb _ 1 none.0.0.0.1, ne_eqb _ 2 none.0.0.1, ne_eqb _ 3 none.0.1, ne_eqb _ 4 none.1) c.put_left-in_default.ensures
