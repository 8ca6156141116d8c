-- `stled325::stled325_command` meets its contract. Assumes nothing.
use Rattle.std.proofs.lemmas.Result.{err_from_is_err_and}
use Rattle.stled325.proofs.Commands.{call_refused, serve_refused, serve_done}
use Rattle.stled325.proofs.stled325_command.Goals as goal

pub returns-in_default : goal.returns-in_default
returns-in_default c =
    rw (c.and.ensures, c.in_default.is) (call_refused _ _ _ _ c.in_ok-panel.ensures.value _ c.in_default.ensures)

pub returns-in_err-next : goal.returns-in_err-next
returns-in_err-next c =
    let p = err_from_is_err_and c.from_residual-in_err-next.result c.from_residual-in_err-next.ensures.1 in
    rw (p.1, p.2) (serve_refused _ _ _ _ c.in_ok-panel.ensures.value _ c.in-Ok.ensures _ c.in_err-next.ensures)

pub returns : goal.returns
returns c =
    serve_done _ _ _ _ c.in_ok-panel.ensures.value _ c.in-Ok.ensures _ c.in_ok-next.ensures _ _ c.store.ensures c.reply.ensures
