use Rattle.questions.proofs.chain.+first_chain.Given as goal

-- proposed from what the function passes where it calls itself
abbrev pub decreases-first_chain : goal.decreases-first_chain
decreases-first_chain l = l.d
