use Rattle.boxed.proofs.Ends.{end-exact, end-going, end-converged, end-infeasible}
use Rattle.boxed.proofs.ending.answer.Goals as goal

pub returns-in-Some-Exact : goal.returns-in-Some-Exact
returns-in-Some-Exact c =
    let a = c.in-Some-Exact in
    end-exact _ _ _ _ _ _ _ c.residual-residual.ensures _ _ a.is (rw a.is at a.field-0-is) c.report.ensures

pub returns-in-Some-Converged : goal.returns-in-Some-Converged
returns-in-Some-Converged c =
    let a = c.in-Some-Converged in
    end-converged _ _ _ _ _ _ _ c.residual-residual.ensures _ _ c.classify.ensures _ a.is (rw a.is at a.field-0-is) c.report-in-Some-Converged.ensures

pub returns-in-Some-Infeasible : goal.returns-in-Some-Infeasible
returns-in-Some-Infeasible c =
    let a = c.in-Some-Infeasible in
    end-infeasible _ _ _ _ _ _ _ c.residual-residual.ensures _ _ _ _ a.is (rw a.is at a.field-0-is) c.report-in-Some-Infeasible.ensures

pub returns-in-None : goal.returns-in-None
returns-in-None c = end-going _ _ _ _ _ _ _ c.residual-residual.ensures _ _ c.classify-in-None.ensures c.in-None.is c.report-in-None.ensures
