-- The laws of due answers that the proofs here rest on, as the law functions hand them in.
use Rattle.hm_due_law.specs.Laws.{DueReplyStaysDue, FreshReadStaysFresh, CleanReadIsFresh, CompletionIsDue, PrefixIsTidy, InvocationKeepsAgreement, DueReplyKeepsAgreement, DeclaringKeepsAgreement}

-- what is true of replies and stamped reads stays true
pub record Staying : Type 0 where
  pub due : DueReplyStaysDue
  pub fresh : FreshReadStaysFresh

-- what an event rests on
pub record DueLaws : Type 0 where
  pub staying : Staying
  pub clean : CleanReadIsFresh
  pub completion : CompletionIsDue
  pub tidy : PrefixIsTidy
  pub invocation : InvocationKeepsAgreement
  pub reply : DueReplyKeepsAgreement
  pub declaring : DeclaringKeepsAgreement
