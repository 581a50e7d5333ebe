mod BlockSteps
